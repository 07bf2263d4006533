pub mod TurnsTold
