pub mod TableLaws
pub mod PutLaws
pub mod FileLaws
pub mod RootLaws
pub mod KeepLaws
pub mod CallerLaws
pub mod FirstLaws
