pub mod Application
