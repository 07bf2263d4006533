pub mod Seeks
