mod LinesInParts
mod SessionLines
pub mod BlocksInTurn
pub mod LinesInTurn
