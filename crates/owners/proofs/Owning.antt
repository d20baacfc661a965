-- Each way through own.
use Rattle.std.proofs.Common.{Option, None, is_some, IfSome, unwrap_or}
use Rattle.std.proofs.Common.{◌≡◌, refl, sym, ap, ◌∙◌, Bool, true, false, not, List, [], ◌∷◌, ◌++◌, append_assoc, ℕ, ◌+◌, ◌-◌, ◌*◌, ◌≤◌, ◌<◌, arith, add-one, length, take, drop, set, replicate, length-set, drop-drop, take-take, take-suc-set, drop-set-lt, rules, ltb, true≢false, lt-ltb, le-ltb, le-leb, Some}
use borrow.Author.Tests.{lt-leb, not-true, not-false}
use Rattle.wire.specs.Words.{word_at, word_bytes}
use Rattle.wire.specs.declared.Order.TheVariants.{Little}
use Rattle.wire.proofs.Words.{Octets, octets_below, put_at_lem}
use Rattle.wire.proofs.Parts.{drop_taken, pad_fits, take_zeros}
use Rattle.tables.proofs.Written.{put_sized, table_unused}
use Rattle.image.specs.declared.Section.TheVariants.{Own}
use Rattle.policy.specs.Names.{name_limit, cell_of, owns, name_width}
use Rattle.policy.specs.Decisions.{own_decision}
use Rattle.policy.specs.declared.Decision.{Decision}
use Rattle.rules.specs.State.{is_peer, first_by}
use Rattle.rules.specs.Addresses.{ownable}
use Rattle.rules.specs.Calls.{is_owner, no_own, own}
use Rattle.rules.specs.declared.Owned.{Owned}
use Rattle.memory.specs.Layout.{slot_start, names_at, first_name, name_room, names_length, uid_at}
use Rattle.memory.specs.Encoding.{state_of}
use Rattle.memory.specs.Sound.{Held}
use Rattle.memory.specs.Calls.{stored, Did}
use Rattle.memory.proofs.Reading.{sixteen}
use Rattle.memory.specs.Places.{FoundSlot}
use Rattle.memory.proofs.Find.{found_first}
use Rattle.memory.proofs.Frame.{cell_length}
use Rattle.memory.proofs.Again.{ownable_short}
use Rattle.memory.proofs.Puts.{names_stand, name_appended}
use Rattle.slots.specs.Slots.{peer_at, Seated}
use Rattle.owners.specs.Writes.{name_bytes, Naming}
use Rattle.owners.specs.Steps.{granted, claimed, obtained}
use Rattle.slots.proofs.Found.{did_stay, peer_none, peer_place, peer_some, peer_seated, counted}
use Rattle.slots.proofs.Zeros.{zero_rest}

-- ---- what the policy is asked

pub own_is : (image m name gids : List ℕ) (i u : ℕ) → gids ≡ (peer_at m i).gids → u ≡ word_at Little m (slot_start i + uid_at)
    → (r : Decision) → r ≡ own_decision image (record { 0 = u }) gids name
    → r ≡ own_decision image (record { 0 = (peer_at m i).uid }) (peer_at m i).gids name
own_is image m name gids i u h e r q = q ∙ rw (h, e)

pub ruleset asking = (own_is, rules)

-- ---- a name behind its length

module _ (m y name : List ℕ) (at : ℕ) (g : Naming m at name) where
  pub name_room_lem : at + 1 + length name ≤ length (set m at (length name))
  name_room_lem =
      rw (length-set m at (length name)) (omega arith)

  pub name_put : y ≡ name
      → take (at + 1) (set m at (length name)) ++ (y ++ drop (at + 1 + length name - (at + 1)) (drop (at + 1) (set m at (length name))))
      ≡ take at m ++ (name_bytes name ++ drop (at + (1 + length name)) m)
  unfolding name_bytes
  name_put e =
      let n = length name in
      let u = set m at n in
      let t : take (at + 1) u ≡ take at m ++ (n ∷ []) = rw add-one (take-suc-set m at n (omega arith)) in
      let d : drop (at + 1 + n) u ≡ drop (at + 1 + n) m = drop-set-lt (at + 1 + n) m at n (omega arith) in
      let f : at + 1 + n ≡ at + (1 + n) = omega arith in
      put_at_lem (at + 1) n u y
      ∙ rw (t, d, e, f) (append_assoc (take at m) (n ∷ []) (name ++ drop (at + (1 + n)) m))

  pub name_sized : y ≡ name
      → length (take (at + 1) (set m at (length name)) ++ (y ++ drop (at + 1 + length name - (at + 1)) (drop (at + 1) (set m at (length name)))))
      ≡ length m
  unfolding name_bytes
  name_sized e =
      ap length (name_put e) ∙ put_sized m (name_bytes name) at (1 + length name) (omega arith) (omega arith)

pub ruleset naming = (name_room_lem, name_put, name_sized, rules)

-- ---- the name granted: n is how many slot i has

module _ (m : List ℕ) (f : Octets m) (i : ℕ) (g : Seated m i) (name : List ℕ) (n : ℕ) (en : n ≡ word_at Little m (slot_start i + names_at)) where
  many : length (peer_at m i).names ≡ n
  many = (counted m i g).names ∙ sym en

  pub grant_full : 4 ≤ n → Did (stored (granted m i name)) 34 m
  unfolding granted
  grant_full l = did_stay m f g.held 34 (granted m i name) (rw (many, le-leb 4 n l))

  module _ (l : n < name_room) where
    -- the cell behind those in use is zero
    room : take name_width (drop (slot_start i + first_name + name_width * n) m) ≡ replicate name_width 0
    room =
        let a = slot_start i in
        let k = 4 + name_width * n in
        let x = name_width * name_room - name_width * n in
        let d = drop (a + names_at) m in
        let s : names_length - k ≡ x = omega arith in
        let t : a + names_at + k ≡ a + first_name + name_width * n = omega arith in
        let z : take x (drop (a + first_name + name_width * n) m) ≡ replicate x 0
        = rw (drop_taken k names_length d, s, drop-drop k (a + names_at) m, t) at
        (table_unused name_width name_room cell_of cell_length (peer_at m i).names (take names_length d) n
        (names_stand m (octets_below m f) g.held i g.below g.some) (sym many) (omega arith)) in
        sym (take-take name_width x (drop (a + first_name + name_width * n) m) (omega arith)) ∙ ap (take name_width) z ∙ take_zeros name_width x (omega arith)

    pub grant_done : length name ≤ name_limit → (m₁ m₂ : List ℕ)
        → m₁ ≡ take (slot_start i + first_name + name_width * n) m ++ (name_bytes name ++ drop (slot_start i + first_name + name_width * n + (1 + length name)) m)
        → m₂ ≡ take (slot_start i + names_at) m₁ ++ (word_bytes (n + 1) ++ drop (slot_start i + names_at + 4) m₁)
        → Did (stored (granted m i name)) 0 m₂
    unfolding granted name_bytes cell_of
    grant_done k m₁ m₂ e₁ e₂ =
        let c = slot_start i + first_name + name_width * n in
        let v : name_width - (1 + length name) ≡ name_limit - length name = omega arith in
        let e₃ : m₁ ≡ take c m ++ (cell_of name ++ drop (c + name_width) m)
        = e₁ ∙ rw (zero_rest m c name_width (1 + length name) (omega arith) room, v, pad_fits name_limit name k) (simp append_assoc) in
        let w = name_appended m (octets_below m f) g.held i g.below g.some name m₁ m₂ n c (sym many) l refl e₃ e₂ in
        rw (many, lt-leb 4 n l) (record { result = refl; memory = w })

pub ruleset granting = (grant_full, grant_done, rules)

-- ---- 33: j is who has the name

none_at : (j : Option ℕ) → IfSome j (λ i. i < 16) → is_some j ≡ false → ltb (unwrap_or j 16) 16 ≡ false
none_at None h e = le-ltb 16 16 (omega arith)
none_at (Some i) h e = absurd (true≢false e)

some_at : (j : Option ℕ) → IfSome j (λ i. i < 16) → is_some j ≡ true → ltb (unwrap_or j 16) 16 ≡ true
some_at None h e = absurd (true≢false (sym e))
some_at (Some i) h e = lt-ltb i 16 h

module _ (m : List ℕ) (f : Octets m) (i : ℕ) (g : Seated m i) (name : List ℕ) (j : Option ℕ) (o : FoundSlot (is_owner name) m 0 j) where
  place : first_by (is_owner name) (state_of m).slots ≡ unwrap_or j 16
  place = found_first (is_owner name) m j o

  pub claim_granted : {y : Bool} → is_some j ≡ not y → y ≡ true → (r : ℕ) (m₁ : List ℕ) → Did (stored (granted m i name)) r m₁ → Did (stored (claimed m i name)) r m₁
  unfolding claimed granted
  claim_granted e h r m₁ d = rw (place, sixteen m, none_at j o.inside (e ∙ rw h)) d

  pub claim_other : {y : Bool} → is_some j ≡ not y → y ≡ false → Did (stored (claimed m i name)) 33 m
  unfolding claimed
  claim_other e h = did_stay m f g.held 33 (claimed m i name) (rw (place, sixteen m, some_at j o.inside (e ∙ rw h)))

pub ruleset claiming = (claim_granted, claim_other, rules)

-- ---- 0 for a name that the peer has: h says whether it does

module _ (m : List ℕ) (f : Octets m) (i : ℕ) (g : Seated m i) (name : List ℕ) (h : Bool) (e : h ≡ owns (peer_at m i).names name) where
  pub obtain_mine : h ≡ true → Did (stored (obtained m i name)) 0 m
  unfolding obtained
  obtain_mine s = did_stay m f g.held 0 (obtained m i name) (rw (← e, s))

  pub obtain_claimed : h ≡ false → (r : ℕ) (m₁ : List ℕ) → Did (stored (claimed m i name)) r m₁ → Did (stored (obtained m i name)) r m₁
  unfolding obtained claimed
  obtain_claimed s r m₁ x = rw (← e, s) x

pub ruleset obtaining = (obtain_mine, obtain_claimed, rules)

-- ---- 30, 31, 32, and who decided

pub own_short : (name : List ℕ) (b : Bool) → b ≡ ownable name → not b ≡ false → length name ≤ name_limit
own_short name b e t = ownable_short name (sym e ∙ not-false b t)

module _ (image m : List ℕ) (f : Octets m) (g : Held m) (n : ℕ) (name : List ℕ) where
  pub own_none : FoundSlot (is_peer n) m 0 None → (r : Owned) → r ≡ no_own 30 → Did (stored (own image (state_of m) n name)) r m
  unfolding own
  own_none e r k = did_stay m f g r (own image (state_of m) n name) (rw (peer_none n m e, k))

  module _ (i : ℕ) (e : FoundSlot (is_peer n) m 0 (Some i)) (b : Bool) (eb : b ≡ ownable name) where
    pub own_bad : not b ≡ true → (r : Owned) → r ≡ no_own 31 → Did (stored (own image (state_of m) n name)) r m
    unfolding own
    own_bad t r k =
        did_stay m f g r (own image (state_of m) n name) (rw (peer_place n m i e, peer_some n m i e, ← eb, not-true b t, k))

    module _ (t : not b ≡ false) (d : Decision) (ed : d ≡ own_decision image (record { 0 = (peer_at m i).uid }) (peer_at m i).gids name) where
      pub own_denied : d.allow ≡ false → Did (stored (own image (state_of m) n name)) (record { answer = 32; rule = Some d.rule }) m
      unfolding own
      own_denied s =
          did_stay m f g (record { answer = 32; rule = Some d.rule }) (own image (state_of m) n name)
          (rw (peer_place n m i e, peer_some n m i e, ← eb, not-false b t, ← ed, s))

      pub own_obtained : d.allow ≡ true → (r : ℕ) (m₁ : List ℕ) → Did (stored (obtained m i name)) r m₁
          → Did (stored (own image (state_of m) n name)) (record { answer = r; rule = Some d.rule }) m₁
      unfolding own obtained
      own_obtained s r m₁ x =
          rw (peer_place n m i e, peer_some n m i e, ← eb, not-false b t, ← ed, s) (record { result = rw x.result; memory = x.memory })

pub ruleset owning = (own_none, own_bad, own_denied, own_obtained, own_short, peer_seated, rules)
