pub mod Numbers
mod WorkedQuestions
