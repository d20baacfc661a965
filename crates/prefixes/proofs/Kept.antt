-- Whoever may join, and whatever may pass, is decided by the new image as by the old one, and by the rule at the same position.
use mathlib.Core.Path.{◌≡◌, refl, sym, ap, ◌∙◌}
use mathlib.Core.Bool.{Bool}
use mathlib.Core.List.{List}
use mathlib.Core.Option.{Option, none, some}
use Prim.Native.Nat.{ℕ, ◌<◌}
use Rattle.image.specs.Image.{rule_count, rule_place}
use Rattle.image.specs.Rules.{Span, PolicyRule, policy_rule}
use Rattle.image.specs.Promises.{GoodImage}
use Rattle.image.specs.declared.Section.{Section}
use Rattle.image.specs.declared.Section.TheVariants.{Connect, Transaction}
use Rattle.image.proofs.RuleHolds.{Inside, transaction_holds}
use Rattle.policy.specs.Precedence.{deciding, Decides}
use Rattle.policy.specs.Matching.{allows, connect_fits, Message, part_fits, interface_fits, parts_fit, name_fits, transaction_fits, transaction_matches}
use Rattle.policy.specs.Decisions.{context_in, allows_in, decides_in, decision_in, connect_hits, connect_decision, transaction_hits, transaction_decision}
use Rattle.policy.specs.declared.Uid.{Uid}
use Rattle.policy.proofs.Decides.{deciding_some, deciding_only, deciding_none, deciding_nothing, rule_exactly}
use Rattle.prefixes.specs.Converted.{converted}
use Rattle.prefixes.proofs.Laid.{Small, connects_are, connect_row, transactions_are, transaction_row}
use Rattle.prefixes.proofs.Texts.{text_kept}
use Rattle.prefixes.proofs.Fields.{ConnectAlike, connect_alike, transaction_alike}

-- ---- rules that agree decide alike

module _ (n : ℕ) (c d : ℕ → ℕ) (p q : ℕ → Bool) (same_context : (i : ℕ) → i < n → d i ≡ c i) (same_match : (i : ℕ) → i < n → q i ≡ p i) where
  decides_same : (i : ℕ) → Decides c p n i → Decides d q n i
  decides_same i k =
      record {
        inside = k.inside;
        fits = same_match i k.inside ∙ k.fits;
        beats = λ j l m e. rw (same_context i k.inside, same_context j l) (k.beats j l (sym (same_match j l) ∙ m) e);
      }

  pub deciding_same : deciding d q n ≡ deciding c p n
  deciding_same = go (deciding c p n) refl
    where
      go : (o : Option ℕ) → deciding c p n ≡ o → deciding d q n ≡ o
      go none e = deciding_nothing d q n (λ j l. same_match j l ∙ deciding_none c p n e j l)
      go (some i) e = deciding_only d q n i (decides_same i (deciding_some c p n i e))

-- a rule says the same in both images: its context, its verdict and whether it matches
record RuleKept (s : Section) (image new : List ℕ) (hits news : ℕ → Bool) (i : ℕ) : Type 0 where
  context : context_in s new i ≡ context_in s image i
  allows : allows_in s new i ≡ allows_in s image i
  match : news i ≡ hits i

-- where each rule of a section does, the same rule decides the same
decision_same : (s : Section) (image new : List ℕ) (hits news : ℕ → Bool) → rule_count s new ≡ rule_count s image
    → ((i : ℕ) → i < rule_count s image → RuleKept s image new hits news i)
    → decision_in s new (decides_in s new news) ≡ decision_in s image (decides_in s image hits)
decision_same s image new hits news n k = rw decides (go (decides_in s image hits) refl)
  where
    decides : decides_in s new news ≡ decides_in s image hits
    decides =
        unfold decides_in in
        rw n
        (deciding_same (rule_count s image) (context_in s image) (context_in s new) hits news (λ i l. (k i l).context) (λ i l. (k i l).match))

    go : (o : Option ℕ) → decides_in s image hits ≡ o → decision_in s new o ≡ decision_in s image o
    go none e = refl
    go (some i) e = rw (k i ((rule_exactly s image hits i).0 e).inside).allows

module _ (image list : List ℕ) (g : GoodImage image) (s : Small image list) where
  abbrev new : List ℕ
  new = converted image list

  -- ---- connect

  pub connect_rule : (i : ℕ) → i < rule_count Connect image → ConnectAlike (policy_rule Connect new i) (policy_rule Connect image i)
  connect_rule i l = connect_alike new image (rule_place Connect new i) (rule_place Connect image i) (connect_row image list g.header s i l)

  -- ---- send and receive

  pub transaction_rule : (i : ℕ) → i < rule_count Transaction image → policy_rule Transaction new i ≡ policy_rule Transaction image i
  transaction_rule i l =
      transaction_alike new image (rule_place Transaction new i) (rule_place Transaction image i) (transaction_row image list g.header s i l)

  part_kept : (t : Span) (part : Option (List ℕ)) → Inside image t → part_fits new t part ≡ part_fits image t part
  unfolding part_fits
  part_kept t part i = rw (text_kept image list g.header s t i)

  interface_kept : (r : PolicyRule) (part : Option (List ℕ)) → Inside image r.interface → interface_fits new r part ≡ interface_fits image r part
  unfolding interface_fits
  interface_kept r none i = refl
  interface_kept r (some text) i = part_kept r.interface (some text) i

  name_kept : (r : PolicyRule) (names : List (List ℕ)) → Inside image r.name → name_fits new r names ≡ name_fits image r names
  unfolding name_fits
  name_kept r names i = rw (text_kept image list g.header s r.name i)

  module _ (direction : ℕ) (uid : Uid) (gids : List ℕ) (names : List (List ℕ)) (m : Message) where
    match_kept : (i : ℕ) → i < rule_count Transaction image
        → transaction_matches new (policy_rule Transaction image i) direction uid gids names m
        ≡ transaction_matches image (policy_rule Transaction image i) direction uid gids names m
    unfolding transaction_matches transaction_fits parts_fit
    match_kept i l =
        let r = policy_rule Transaction image i in
        let k = transaction_holds g i l in
        rw (
          part_kept r.path m.path k.path,
          interface_kept r m.interface k.interface,
          part_kept r.member m.member k.member,
          name_kept r names k.name,
        )

    transaction_rule_kept : (i : ℕ) → i < rule_count Transaction image
        → RuleKept Transaction image new (transaction_hits image direction uid gids names m) (transaction_hits new direction uid gids names m) i
    transaction_rule_kept i l =
        let e = transaction_rule i l in
        record {
          context = ap (λ (r : PolicyRule). r.context) e;
          allows = ap allows e;
          match = ap (λ (r : PolicyRule). transaction_matches new r direction uid gids names m) e ∙ match_kept i l;
        }

    pub transaction_same : transaction_decision new direction uid gids names m ≡ transaction_decision image direction uid gids names m
    unfolding transaction_decision
    transaction_same =
        decision_same Transaction image new (transaction_hits image direction uid gids names m) (transaction_hits new direction uid gids names m)
        (transactions_are image list g.header s) transaction_rule_kept

  module _ (uid : Uid) (gids : List ℕ) where
    connect_rule_kept : (i : ℕ) → i < rule_count Connect image
        → RuleKept Connect image new (connect_hits image uid gids) (connect_hits new uid gids) i
    unfolding connect_fits
    connect_rule_kept i l =
        let k = connect_rule i l in
        record {
          context = k.context;
          allows = rw k.verdict;
          match = rw (k.matcher, k.id);
        }

    pub connect_same : connect_decision new uid gids ≡ connect_decision image uid gids
    unfolding connect_decision
    connect_same =
        decision_same Connect image new (connect_hits image uid gids) (connect_hits new uid gids) (connects_are image list g.header s) connect_rule_kept
