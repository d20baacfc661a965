-- Leaving the interface out gains nothing (rule 6.8): where a message without one may pass, the same message with any interface may pass too.
use mathlib.Core.Path.{◌≡◌, refl, sym, ◌∙◌}
use mathlib.Core.Bool.{Bool, true, false, ◌&&◌, ◌||◌, false≢true, or-true}
use mathlib.Core.List.{List}
use mathlib.Core.Option.{Option, none, some}
use Prim.Native.Nat.{ℕ}
use lib.Dec.{eqb}
use Rattle.image.specs.Image.{rule_count}
use Rattle.image.specs.declared.Section.TheVariants.{Transaction}
use Rattle.image.specs.Rules.{PolicyRule, policy_rule}
use Rattle.policy.specs.Precedence.{rule_verdict, Decides}
use Rattle.policy.specs.Subjects.{subject_fits}
use Rattle.policy.specs.Matching.{Message, allows, without_interface, part_fits, interface_fits, parts_fit, type_fits, name_fits}
use Rattle.policy.specs.Matching.{transaction_fits, transaction_matches}
use Rattle.policy.specs.Decisions.{context_in, allows_in, decides_in, transaction_hits, transaction_decision, may_transact}
use Rattle.policy.specs.declared.Uid.{Uid}
use Rattle.policy.proofs.Decides.{clash, rule_exactly, rule_undecided}

-- ---- one rule

module _ (image : List ℕ) (r : PolicyRule) where
  -- an allow that fits a message without an interface names none, so it fits every interface
  allow_fits : allows r ≡ true → (interface : Option (List ℕ)) → interface_fits image r none ≡ true → interface_fits image r interface ≡ true
  unfolding interface_fits part_fits
  allow_fits a none h = h
  allow_fits a (some text) h = go (eqb r.interface.len 0) refl (rw a at h)
    where
      go : (b : Bool) → eqb r.interface.len 0 ≡ b → b || false ≡ true → part_fits image r.interface (some text) ≡ true
      go true e k = rw e
      go false e k = absurd (false≢true k)

  -- a deny fits a message without an interface, whatever it names
  deny_fits : allows r ≡ false → interface_fits image r none ≡ true
  unfolding interface_fits
  deny_fits a = rw (a, or-true (eqb r.interface.len 0))

-- where the interface fits for another that fitted, the rule still matches: direction, type, subject, path, interface, member, name
one_part : (d t s p i j e n : Bool) → (i ≡ true → j ≡ true) → d && (t && s && (p && i && e)) && n ≡ true → d && (t && s && (p && j && e)) && n ≡ true
one_part false t s p i j e n h k = k
one_part true false s p i j e n h k = k
one_part true true false p i j e n h k = k
one_part true true true false i j e n h k = k
one_part true true true true false j e n h k = absurd (false≢true k)
one_part true true true true true j e n h k = rw (h refl) k

-- ---- which rules match, and which decides

module _ (image : List ℕ) (direction : ℕ) (uid : Uid) (gids : List ℕ) (names : List (List ℕ)) (m : Message) where
  -- the message with that interface, or none
  abbrev with : Option (List ℕ) → Message
  with interface = record { kind = m.kind; path = m.path; interface = interface; member = m.member }

  -- the rule at i matches it
  abbrev Hits : Option (List ℕ) → ℕ → Bool
  Hits interface = transaction_hits image direction uid gids names (with interface)

  abbrev rule : ℕ → PolicyRule
  rule i = policy_rule Transaction image i

  -- where one interface fits if another does, the rule matches the one if it matches the other
  hits_too : (i : ℕ) (x y : Option (List ℕ)) → (interface_fits image (rule i) x ≡ true → interface_fits image (rule i) y ≡ true) → Hits x i ≡ true
      → Hits y i ≡ true
  unfolding transaction_matches transaction_fits parts_fit
  hits_too i x y h =
      one_part
      (eqb (rule i).direction direction)
      (type_fits (rule i) m.kind)
      (subject_fits (rule i).context (rule i).subject uid gids)
      (part_fits image (rule i).path m.path)
      (interface_fits image (rule i) x)
      (interface_fits image (rule i) y)
      (part_fits image (rule i).member m.member)
      (name_fits image (rule i) names)
      h

  abbrev Decided : Option (List ℕ) → ℕ → Type 0
  Decided interface = Decides (context_in Transaction image) (Hits interface) (rule_count Transaction image)

  -- a deny that decides with the interface would have beaten the allow that decides without one
  allow_stays : (i k : ℕ) → Decided none i → allows (rule i) ≡ true → Decided m.interface k → allows (rule k) ≡ true
  allow_stays i k d a c = go (allows (rule k)) refl
    where
      go : (b : Bool) → allows (rule k) ≡ b → b ≡ true
      go true e = refl
      go false e =
          let apart : k ≡ i → ⊥ = λ q. false≢true (sym e ∙ rw (← q) at a) in
          absurd
          (clash (context_in Transaction image) i k
          (d.beats k c.inside (hits_too k m.interface none (λ h. deny_fits image (rule k) e) c.fits) apart)
          (c.beats i d.inside (hits_too i none m.interface (allow_fits image (rule i) a m.interface) d.fits) (λ q. apart (sym q))))

  -- where the message may pass without an interface, it may with its own
  pub bare_no_wider : may_transact image direction uid gids names (without_interface m) ≡ true → may_transact image direction uid gids names m ≡ true
  unfolding transaction_decision
  bare_no_wider h = go (decides_in Transaction image (Hits none)) refl h
    where
      with_own : (i : ℕ) → Decided none i → allows (rule i) ≡ true → (o : Option ℕ) → decides_in Transaction image (Hits m.interface) ≡ o
          → rule_verdict (allows_in Transaction image) o ≡ true
      with_own i d a none e =
          absurd
          (false≢true
          (sym ((rule_undecided Transaction image (Hits m.interface)).0 e i d.inside)
          ∙ hits_too i none m.interface (allow_fits image (rule i) a m.interface) d.fits))
      with_own i d a (some k) e = allow_stays i k d a ((rule_exactly Transaction image (Hits m.interface) k).0 e)

      go : (o : Option ℕ) → decides_in Transaction image (Hits none) ≡ o → rule_verdict (allows_in Transaction image) o ≡ true
          → rule_verdict (allows_in Transaction image) (decides_in Transaction image (Hits m.interface)) ≡ true
      go none e k = absurd (false≢true k)
      go (some i) e k = with_own i ((rule_exactly Transaction image (Hits none) i).0 e) k (decides_in Transaction image (Hits m.interface)) refl
