pub mod Laws
pub mod Rises
pub mod Filled
pub mod Borders
pub mod Marks
pub mod Answers
pub mod Ends
