pub mod Origins
pub mod Whole
