pub mod Calcs
