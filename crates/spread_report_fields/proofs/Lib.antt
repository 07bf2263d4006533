pub mod FieldsInTurn
pub mod SymbolIds
