pub mod LittleLaws
