mod DeferLaws
mod PartLaws
mod PlainLaws
