pub mod ScopeFaults
