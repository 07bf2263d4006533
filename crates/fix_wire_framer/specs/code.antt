pub mod FramerFields
