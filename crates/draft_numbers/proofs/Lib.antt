mod Grown
mod Whole
mod OneDraft
