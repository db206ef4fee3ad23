-- Definitions of what the files say that the program for questions reads.
pub mod TextLines
pub mod ResolverFiles
pub mod AnchorFiles
pub mod RootKeys
