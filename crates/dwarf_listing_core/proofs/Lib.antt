mod Common
pub mod Commands
pub mod Digits
pub mod Hexadecimal
pub mod ItemLines
pub mod Numbers
pub mod OneText
pub mod SetTexts
pub mod StringLines
pub mod Texts
pub mod Written
