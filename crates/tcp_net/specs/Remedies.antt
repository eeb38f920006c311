-- What is to be done behind an error of `accept(2)`, by its number on Linux.
use Rattle.std.specs.Prelude.{◌≡◌, ◌⊎◌, ℤ, pos, Option, IfSome, IsSomeAnd}
use Rattle.tcp_net.specs.declared.remedy.Remedy.{Remedy}
use Rattle.tcp_net.specs.declared.remedy.Remedy.TheVariants.{GoOn, Wait, GiveUp}

-- the listener is none: EBADF, EINVAL, ENOTSOCK
abbrev pub IsLastError : ℤ → Type 0
IsLastError error = (error ≡ pos 9) ⊎ (error ≡ pos 22) ⊎ (error ≡ pos 88)

-- the error is of the connection that was to be accepted, or a signal came: EINTR, ECONNABORTED, EPROTO, and those of
-- the network, which Linux hands on
abbrev pub IsPassingError : ℤ → Type 0
IsPassingError error =
    (error ≡ pos 4) ⊎ (error ≡ pos 103) ⊎ (error ≡ pos 71) ⊎ (error ≡ pos 64) ⊎ (error ≡ pos 92) ⊎ (error ≡ pos 95)
    ⊎ (error ≡ pos 100) ⊎ (error ≡ pos 101) ⊎ (error ≡ pos 112) ⊎ (error ≡ pos 113)

-- the listener gives up behind the first kind alone, and at once goes on behind the second; it waits behind all others,
-- and behind what has no number
abbrev pub IsRemedy : Option ℤ → Remedy → Type 0
IsRemedy error GiveUp = IsSomeAnd error IsLastError
IsRemedy error GoOn = IsSomeAnd error IsPassingError
IsRemedy error Wait = IfSome error (λ number. ¬ (IsLastError number) × ¬ (IsPassingError number))
