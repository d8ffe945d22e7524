pub mod BoolLemmas
pub mod SlotLemmas
pub mod RunLemmas
pub mod GrowLemmas
pub mod SeriesLemmas
pub mod StationLemmas
pub mod WorkedRows
