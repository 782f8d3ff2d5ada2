pub mod Inside
pub mod FineParts
pub mod Copying
pub mod Numbers
pub mod Unpacked
pub mod NoParts
pub mod Refused
pub mod WhatIsRead
pub mod DataTypes
pub mod DataStrings
pub mod DataAgain
pub mod DataCopies
pub mod ComesBack
pub mod NextMarshal
pub mod Later
pub mod NoneBegins
mod CopyExamples
pub mod OneCopy
