pub mod Joining
pub mod PatFlaws
pub mod ExprFlaws
pub mod DefFlaws
pub mod SurfaceFlaws
pub mod Variables
