mod Beginning
mod Dying
mod Left
mod Quieted
