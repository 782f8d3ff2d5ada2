mod Pages
mod Right
