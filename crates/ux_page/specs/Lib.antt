pub mod Escaping
