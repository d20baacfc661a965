-- A position, of a place's distance and a rule's size, and a verdict fit into one number of 64 bits: the number that told a decision before there was a type for it.
use Rattle.std.proofs.Common.{ℕ, ◌+◌, ◌*◌, ◌/◌, ◌^◌, ◌<◌, arith}
use native.Mathlib.Nat.{div-le_self}

module _ (d w v : ℕ) (h : d < 4294967296) (l : v < 256) where
  pub twice_fits : 2 * (d / w) < 2 ^ 64
  twice_fits = omega (arith, div-le_self d w)

  pub ruling_fits : 2 * (d / w) + v < 2 ^ 64
  ruling_fits = omega (arith, div-le_self d w)
