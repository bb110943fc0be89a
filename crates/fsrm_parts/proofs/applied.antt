pub mod SortedNumbers
pub mod EligibleFolders
