-- States seen as others, their streams through a function: what is found in them and set in them.
use mathlib.Core.Path.{◌≡◌, refl, sym, ap, ap₂, ◌∙◌}
use mathlib.Core.Bool.{Bool, true, false, cond}
use mathlib.Core.List.{List, [], ◌∷◌, map}
use mathlib.Core.Option.{Option, none, some}
use Prim.Native.Nat.{ℕ, zero, suc}
use lib.ListN.{length, get_or, set, length-map, get_or-map}
use Rattle.wire.specs.Bytes.{same}
use Rattle.policy.specs.Names.{bus_name}
use Rattle.rules.specs.State.{Peer, Slot, free, peer, State, is_peer, first_by, put_slot}
use Rattle.rules.specs.Addresses.{Address, answers_to, found, resolve}
use Rattle.rules.specs.View.{seen_peer, seen_slot, seen}

-- ---- choices and maps

-- a choice seen is the choice of what is seen
pub chosen : {A B : Type 0} (f : A → B) (b : Bool) (x y : A) (u v : B) → u ≡ f x → v ≡ f y → cond b u v ≡ f (cond b x y)
chosen f true x y u v p q = p
chosen f false x y u v p q = q

pub map_over : {A B C : Type 0} (f : A → B) (t : A → C) (u : B → C) → ((x : A) → u (f x) ≡ t x) → (l : List A) → map u (map f l) ≡ map t l
map_over f t u e [] = refl
map_over f t u e (x ∷ l) = ap₂ ◌∷◌ (e x) (map_over f t u e l)

pub map_swap : {A B : Type 0} (f : A → B) (g : A → A) (h : B → B) → ((x : A) → h (f x) ≡ f (g x)) → (l : List A) → map h (map f l) ≡ map f (map g l)
map_swap f g h e l = map_over f (λ x. f (g x)) h e l ∙ sym (map_over g (λ x. f (g x)) f (λ x. refl) l)

pub set_over : {A B : Type 0} (f : A → B) (l : List A) (i : ℕ) (x : A) → set (map f l) i (f x) ≡ map f (set l i x)
set_over f [] i x = refl
set_over f (y ∷ l) zero x = refl
set_over f (y ∷ l) (suc i) x = ap (◌∷◌ (f y)) (set_over f l i x)

pub first_over : {A B : Type 0} (f : A → B) (t : A → Bool) (u : B → Bool) → ((x : A) → u (f x) ≡ t x) → (l : List A) → first_by u (map f l) ≡ first_by t l
unfolding first_by
first_over f t u e [] = refl
first_over f t u e (x ∷ l) = ap₂ (λ (b : Bool) (k : ℕ). cond b 0 (suc k)) (e x) (first_over f t u e l)

module _ {A B : Type 0} (f : A → B) where
  -- what says the same of every peer seen says the same of every slot seen
  pub same_seen : {C : Type 0} (t : Slot A → C) (u : Slot B → C) → u free ≡ t free → ((p : Peer A) → u (peer (seen_peer f p)) ≡ t (peer p))
      → (x : Slot A) → u (seen_slot f x) ≡ t x
  same_seen t u e g free = e
  same_seen t u e g (peer p) = g p

  -- ---- what is found

  module _ (s : State A) where
    pub first_seen : (t : Slot A → Bool) (u : Slot B → Bool) → u free ≡ t free → ((p : Peer A) → u (peer (seen_peer f p)) ≡ t (peer p))
        → first_by u (seen f s).slots ≡ first_by t s.slots
    first_seen t u e g = first_over (seen_slot f) t u (same_seen t u e g) s.slots

    pub first_peer : (n : ℕ) → first_by (is_peer n) (seen f s).slots ≡ first_by (is_peer n) s.slots
    first_peer n = first_seen (is_peer n) (is_peer n) refl (λ p. refl)

    pub long_seen : length (seen f s).slots ≡ length s.slots
    long_seen = length-map s.slots (seen_slot f)

    pub slot_seen : (i : ℕ) → get_or (seen f s).slots i free ≡ seen_slot f (get_or s.slots i free)
    slot_seen i = get_or-map (seen_slot f) s.slots i free

    pub resolve_seen : (d : Option (List ℕ)) → resolve (seen f s).slots d ≡ resolve s.slots d
    unfolding resolve answers_to
    resolve_seen none = refl
    resolve_seen (some text) =
        ap₂ (λ (n i : ℕ). cond (same text bus_name) Address.bus (found n i)) long_seen (first_seen (answers_to text) (answers_to text) refl (λ p. refl))

    -- ---- what is put

    pub put_seen : (i : ℕ) (x : Slot A) → put_slot (seen f s) i (seen_slot f x) ≡ seen f (put_slot s i x)
    put_seen i x = ap (λ (l : List (Slot B)). record { last = s.last; tick = s.tick; slots = l }) (set_over (seen_slot f) s.slots i x)
