-- The proofs on live receives.

-- the receives beside the entries under whose numbers their places stand
mod Standing
-- how no live receive is kept
mod Nobody
-- receives whose numbers rise
mod Rising
-- what is asked of live receives, beside the map of their messages
mod Asking
