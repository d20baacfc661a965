-- A head kept in a region that is zero behind it, and bytes stored behind the head.
use mathlib.Core.Path.{◌≡◌, sym, ap, ap₂, ◌∙◌}
use mathlib.Core.List.{List, ◌++◌, append_assoc}
use Prim.Native.Nat.{ℕ, ◌+◌, ◌-◌, ◌≤◌, min}
use native.Mathlib.Omega.{arith}
use lib.ListN.{length, take, drop, replicate, length-append, length-take, length-drop}
use lib.Seq.{take_at, length-take-le}
use Rattle.wire.specs.Bytes.{pad}
use Rattle.wire.proofs.Words.{cut_at, put_at_lem}
use Rattle.wire.proofs.Parts.{drop_past, drop_zeros, pad_fits}
use Rattle.stream.specs.declared.Stream.{Stream}
use Rattle.stream.specs.Steps.{Started, Room, Stored}
use Rattle.header.specs.Fixed.{fixed_length, head_limit}

pub started_length : {region : List ℕ} {s : Stream} {piece : List ℕ} {used : ℕ} → Started region s piece used → length (take s.stored region) ≡ s.stored
started_length {region} {s} b = length-take-le s.stored region (omega (arith, b.stored, b.sized))

-- ---- bytes stored

module _ (region : List ℕ) (stored limit : ℕ) (piece : List ℕ) (used k : ℕ) (after : List ℕ) (r : Room region stored limit piece used)
    (s : Stored region stored limit piece used k after) where
  pub fits : (stored + k ≤ limit) × (used + k ≤ length piece)
  fits = (omega (arith, r.up, s.many), omega (arith, r.within, s.many))

  head_length_lem : length (take stored region) ≡ stored
  head_length_lem = length-take-le stored region (omega (arith, r.up, r.inside, r.sized))

  bytes_length : length (take k (drop used piece)) ≡ k
  bytes_length = length-take-le k (drop used piece) (rw (length-drop used piece) (omega (arith, fits)))

  -- the head with the bytes behind it, and what stands behind both
  abbrev joined : List ℕ
  joined = take stored region ++ take k (drop used piece)

  joined_length : length joined ≡ stored + k
  joined_length = length-append (take stored region) (take k (drop used piece)) ∙ ap₂ ◌+◌ head_length_lem bytes_length

  after_is : after ≡ joined ++ drop (stored + k) region
  after_is = s.bytes ∙ sym (append_assoc (take stored region) (take k (drop used piece)) (drop (stored + k) region))

  pub head_after : take (stored + k) after ≡ joined
  head_after = ap (take (stored + k)) after_is ∙ take_at joined (drop (stored + k) region) (stored + k) joined_length

  pub length_after : length after ≡ head_limit
  length_after =
      ap length after_is
      ∙ length-append joined (drop (stored + k) region)
      ∙ rw (joined_length, length-drop (stored + k) region) (omega (arith, fits, r.inside, r.sized))

  pub padded_after : region ≡ pad head_limit (take stored region) → after ≡ pad head_limit (take (stored + k) after)
  padded_after p =
      let n = head_limit - length (take stored region) in
      let e : n - k ≡ head_limit - length joined = omega (arith, head_length_lem, joined_length) in
      let z : drop (stored + k) region ≡ replicate (head_limit - length joined) 0
      = ap (drop (stored + k)) (p ∙ pad_fits head_limit (take stored region) (omega (arith, head_length_lem, fits, r.inside)))
      ∙ drop_past (take stored region) (replicate n 0) stored k head_length_lem
      ∙ drop_zeros k n
      ∙ ap (λ (n : ℕ). replicate {A = ℕ} n 0) e in
      after_is
      ∙ ap (λ (x : List ℕ). joined ++ x) z
      ∙ sym (pad_fits head_limit joined (omega (arith, joined_length, fits, r.inside)))
      ∙ ap (pad head_limit) (sym head_after)

  pub kept_after : length (take (stored + k) after) ≡ stored + k
  kept_after = ap length head_after ∙ joined_length

  pub started_after : (taken : ℕ) → region ≡ pad head_limit (take stored region) → fixed_length ≤ stored + k
      → Started after (record { taken = taken; stored = stored + k }) piece (used + k)
  started_after taken p h = record { sized = length_after; padded = padded_after p; above = h; stored = omega (arith, fits, r.inside); within = fits.1 }

-- ---- what the code of `store` shows

module _ (region : List ℕ) (stored limit : ℕ) (piece : List ℕ) (used : ℕ) (r : Room region stored limit piece used) (k : ℕ)
    (e : k ≡ min (limit - stored) (length piece - used)) where
  pub same_lengths : length (take (stored + k - stored) (drop stored region)) ≡ length (take (used + k - used) (drop used piece))
  same_lengths =
      rw (cut_at stored k region, cut_at used k piece) (simp (length-take, length-drop) (omega (arith, r.up, r.inside, r.within, r.sized)))

  pub stores : (ys : List ℕ) → ys ≡ take (used + k - used) (drop used piece)
      → Stored region stored limit piece used k (take stored region ++ (ys ++ drop (stored + k - stored) (drop stored region)))
  stores ys q =
      record {
        many = e;
        bytes = put_at_lem stored k region ys
            ∙ ap (λ (x : List ℕ). take stored region ++ (x ++ drop (stored + k) region)) (q ∙ cut_at used k piece);
      }
