pub mod IdFields
