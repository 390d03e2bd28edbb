pub mod Catalogues
mod Examples
