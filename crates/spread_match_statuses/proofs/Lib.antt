pub mod status_rows
