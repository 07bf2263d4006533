pub mod ReaderFields
