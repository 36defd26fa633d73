pub mod Reading
pub mod Word
pub mod Leb
pub mod Adler
pub mod Mutf8
pub mod Descriptor
pub mod Decides
pub mod Grammar
