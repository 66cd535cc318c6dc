pub mod Retexted
