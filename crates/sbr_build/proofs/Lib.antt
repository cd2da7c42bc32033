pub mod SlotList
pub mod OnsetsRecord
pub mod Shares
