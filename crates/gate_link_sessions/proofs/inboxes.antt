pub mod AlongTwoLists
pub mod OneMore
pub mod OneClose
