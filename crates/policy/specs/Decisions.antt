-- The four decisions: which rule of its section decides, by its position there, and so what is decided. They ask of any bytes, good image or not.
use Rattle.std.specs.Prelude.{◌≡◌, Bool, false, List, [], ◌∷◌, ℕ}
use Rattle.std.proofs.Math.Option.{Option, none, some}
use Rattle.image.specs.Image.{rule_count}
use Rattle.image.specs.declared.Section.{Section}
use Rattle.image.specs.declared.Section.TheVariants.{Connect, Own, Transaction}
use Rattle.image.specs.Rules.{policy_rule}
use Rattle.policy.specs.Precedence.{deciding, rule_verdict, Decides, NoneMatches}
use Rattle.policy.specs.Matching.{allows, connect_fits, own_fits, Message, transaction_matches}
use Rattle.policy.specs.declared.Uid.{Uid}
use Rattle.policy.specs.declared.Decider.{Decider}
use Rattle.policy.specs.declared.Decider.TheVariants.{Nobody, Rule}
use Rattle.policy.specs.declared.Decision.{Decision}

-- ---- over the rules of any section, of which those match for which `hits` holds

-- the context of rule i, and whether it allows
abbrev pub context_in : Section → List ℕ → ℕ → ℕ
context_in s image i = (policy_rule s image i).context

abbrev pub allows_in : Section → List ℕ → ℕ → Bool
allows_in s image i = allows (policy_rule s image i)

-- the rule that decides (rule 6.1)
unfoldable pub decides_in : Section → List ℕ → (ℕ → Bool) → Option ℕ
decides_in s image hits = deciding (context_in s image) hits (rule_count s image)

-- the section and the position of the rule that decides, where there is one (rule 6.9)
abbrev pub decider_in : Section → Option ℕ → Decider
decider_in s none = Nobody
decider_in s (some i) = Rule s i

-- the same in two numbers: 1 and the position, or 2 and 0 where none matches (rule 6.9)
abbrev pub decider_words : Decider → List ℕ
decider_words Nobody = 2 ∷ 0 ∷ []
decider_words (Rule s i) = 1 ∷ i ∷ []

-- what is decided, and by whom (rules 6.1 and 6.9)
abbrev pub decision_in : Section → List ℕ → Option ℕ → Decision
decision_in s image decides = record { allow = rule_verdict (allows_in s image) decides; rule = decider_in s decides }

-- the same without a search, which proofs/Deciders.antt proves of every decision: a rule that is named is of this section, matches, has a higher precedence
-- than every other that does, and its verdict is what is decided; where nobody is named, no rule matches, and that denies
abbrev pub NamedRightly : Section → List ℕ → (ℕ → Bool) → Bool → Decider → Type 0
NamedRightly s image hits allow Nobody = NoneMatches hits (rule_count s image) × (allow ≡ false)
NamedRightly s image hits allow (Rule t i) = (t ≡ s) × (Decides (context_in s image) hits (rule_count s image) i × (allows_in s image i ≡ allow))

-- ---- connect: may a peer with this uid and these gids join? (rule 6.3)

-- connect rule i matches
abbrev pub connect_hits : List ℕ → Uid → List ℕ → ℕ → Bool
connect_hits image uid gids i = connect_fits (policy_rule Connect image i) uid gids

abbrev pub connect_decides : List ℕ → Uid → List ℕ → Option ℕ
connect_decides image uid gids = decides_in Connect image (connect_hits image uid gids)

unfoldable pub connect_decision : List ℕ → Uid → List ℕ → Decision
connect_decision image uid gids = decision_in Connect image (connect_decides image uid gids)

abbrev pub may_connect : List ℕ → Uid → List ℕ → Bool
may_connect image uid gids = (connect_decision image uid gids).allow

-- ---- own: may the peer have this name? (rule 6.4)

-- own rule i matches
abbrev pub own_hits : List ℕ → Uid → List ℕ → List ℕ → ℕ → Bool
own_hits image uid gids name i = own_fits image (policy_rule Own image i) uid gids name

abbrev pub own_decides : List ℕ → Uid → List ℕ → List ℕ → Option ℕ
own_decides image uid gids name = decides_in Own image (own_hits image uid gids name)

unfoldable pub own_decision : List ℕ → Uid → List ℕ → List ℕ → Decision
own_decision image uid gids name = decision_in Own image (own_decides image uid gids name)

abbrev pub may_own : List ℕ → Uid → List ℕ → List ℕ → Bool
may_own image uid gids name = (own_decision image uid gids name).allow

-- ---- send and receive: uid and gids are the sender's for send and the receiver's for receive, `names` the other party's (rule 6.5)

-- the directions of a rule (rule 5.6)
abbrev pub send : ℕ
send = 0

abbrev pub receive : ℕ
receive = 1

-- transaction rule i matches
abbrev pub transaction_hits : List ℕ → ℕ → Uid → List ℕ → List (List ℕ) → Message → ℕ → Bool
transaction_hits image direction uid gids names m i = transaction_matches image (policy_rule Transaction image i) direction uid gids names m

abbrev pub transaction_decides : List ℕ → ℕ → Uid → List ℕ → List (List ℕ) → Message → Option ℕ
transaction_decides image direction uid gids names m = decides_in Transaction image (transaction_hits image direction uid gids names m)

unfoldable pub transaction_decision : List ℕ → ℕ → Uid → List ℕ → List (List ℕ) → Message → Decision
transaction_decision image direction uid gids names m = decision_in Transaction image (transaction_decides image direction uid gids names m)

abbrev pub may_transact : List ℕ → ℕ → Uid → List ℕ → List (List ℕ) → Message → Bool
may_transact image direction uid gids names m = (transaction_decision image direction uid gids names m).allow
