mod Told
mod Taking
mod Names
mod Plain
mod Values
mod Sets
mod Directories
mod Firsts
mod Tables
mod Members
mod Budgets
mod CodeTold
mod CodeReads
mod CodeCells
mod CodeHandlers
mod CodeLines
mod CodeBodies
mod CodeMethods
mod CodeClasses
mod Classes
pub mod Whole
pub mod Within
