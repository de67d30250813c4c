mod ImportLaws
mod NarrowLaws
mod NameLaws
mod OwningLaws
