-- What each call reports, as the seven numbers of a place.
use Rattle.std.proofs.Common.{◌≡◌, ap, ◌∙◌, [], ◌∷◌, ℕ, ◌+◌, ◌*◌, ◌/◌, ◌%◌, arith, refl}
use Rattle.wire.specs.Words.{word_bytes}
use Rattle.tables.specs.Tables.{cells}
use Rattle.rules.specs.Places.{receiver_words, shown_words, connected_words, taken_words}
use Rattle.rules.specs.declared.Connected.{Connected}
use Rattle.rules.specs.declared.RuleNumbers.{RuleNumbers}
use Rattle.rules.specs.declared.Taken.{Taken}
use Rattle.places.specs.declared.Report.{Report}
use Rattle.places.specs.Places.{place_of, report_words, Shows}

-- ---- four bytes hold no more of a number

low_digit : (x y q : ℕ) → x ≡ y + 256 * q → y % 256 ≡ x % 256
low_digit x y q e = omega arith

low_word : (n : ℕ) → word_bytes (n % 4294967296) ≡ word_bytes n
unfolding word_bytes
low_word n =
    let m = n % 4294967296 in
    let q = n / 4294967296 in
    let e : n ≡ m + 256 * (16777216 * q) = omega arith in
    let f : n / 256 ≡ m / 256 + 256 * (65536 * q) = omega arith in
    let g : n / 256 / 256 ≡ m / 256 / 256 + 256 * (256 * q) = omega arith in
    let h : n / 256 / 256 / 256 ≡ m / 256 / 256 / 256 + 256 * q = omega arith in
    rw (
      low_digit n m (16777216 * q) e,
      low_digit (n / 256) (m / 256) (65536 * q) f,
      low_digit (n / 256 / 256) (m / 256 / 256) (256 * q) g,
      low_digit (n / 256 / 256 / 256) (m / 256 / 256 / 256) q h,
    )

-- ---- connect

pub shows_connected : (c : Connected) (w : ℕ) → w ≡ c.slot % 4294967296 → (r : Report)
    → report_words r ≡ c.answer ∷ 0 ∷ 0 ∷ c.number ∷ w ∷ shown_words c.rule
    → Shows (connected_words c) r
unfolding place_of cells
shows_connected c w h r e =
    let l : word_bytes w ≡ word_bytes c.slot = rw h (low_word c.slot) in
    record { are = ap (cells word_bytes) e ∙ rw l }

-- ---- a piece

pub shows_taken : (t : Taken) (w : ℕ) → w ≡ t.taken % 4294967296 → {k n c : ℕ} → k ∷ n ∷ c ∷ [] ≡ receiver_words t.judgement.receiver
    → {d : RuleNumbers} → d.kind ∷ d.position ∷ [] ≡ shown_words t.judgement.rule
    → Shows (taken_words t) (record { answer = t.judgement.answer; taken = w; kind = k; number = n; count = c; rule = d })
unfolding place_of cells
shows_taken t w e {k} {n} {c} f {d} q =
    let l : word_bytes w ≡ word_bytes t.taken = rw e (low_word t.taken) in
    record { are = rw (← f, ← q, l) refl }
