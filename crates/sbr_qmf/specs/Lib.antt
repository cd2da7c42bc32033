pub mod Qmf
