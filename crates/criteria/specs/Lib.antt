pub mod Pure
