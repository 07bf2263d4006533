pub mod RanksByQueue
