pub mod OneFillMore
