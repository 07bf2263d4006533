pub mod StateAfter
