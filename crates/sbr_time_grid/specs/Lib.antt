pub mod TimeGrid
