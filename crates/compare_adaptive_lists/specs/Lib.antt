-- What the bytes of a list say of an adaptive detector's settings and of the state that a call is handed.
pub mod State
