mod Most
mod Spending
mod Tables
mod Rows
mod CodeTables
mod Cells
pub mod Whole
