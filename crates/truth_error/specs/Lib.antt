pub mod Boolerr
