pub mod ServingLemmas
mod WorkedRows
