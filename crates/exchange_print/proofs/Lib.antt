pub mod TextInTurn
