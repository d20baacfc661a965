-- What a stream is to the rules, whatever it is made of, and what a piece offered to it does (rules 9.1 and 9.2).
use Rattle.std.specs.Prelude.{Bool, List, [], ◌∷◌, ℕ, suc}
use Rattle.header.specs.declared.Header.{Header}

-- of a message after its latest byte: unfinished; broken, with its answer number; or whole, with the bytes of its head and what they say (rule 9.1)
pub data Verdict : Type 0 where
  more : Verdict
  broken : ℕ → Verdict
  whole : List ℕ → Header → Verdict

-- the answer number of each case: a whole message is judged next, and 0 says no more than that (rule 9.1)
abbrev pub verdict_answer : Verdict → ℕ
verdict_answer more = 10
verdict_answer (broken a) = a
verdict_answer (whole h x) = 0

-- what the rules ask of a stream (rule 9.1)
pub record Streams (S : Type 0) : Type 0 where
  -- no byte taken
  pub fresh : S
  -- one byte joins
  pub push : S → ℕ → S
  -- of the message that the latest byte is in
  pub judge : S → Verdict
  -- the stream once that message is whole
  pub next : S → S
  pub closed : S → Bool
  -- bytes taken of the unfinished or broken message
  pub count : S → ℕ

-- what became of a piece: the verdict, the bytes taken, and the stream with them (rules 9.1 and 9.2)
pub record Offer (S : Type 0) : Type 0 where
  pub verdict : Verdict
  pub taken : ℕ
  pub stream : S

-- one byte more was taken
abbrev pub bump : {S : Type 0} → Offer S → Offer S
bump o = record { verdict = o.verdict; taken = suc o.taken; stream = o.stream }

-- byte by byte: the first one that settles the message is the last one taken (rules 9.1 and 9.2)
unfoldable pub offer : {S : Type 0} → Streams S → S → List ℕ → Offer S
offer O s [] = record { verdict = more; taken = 0; stream = s }
offer O s (b ∷ p) =
    elim (O.judge (O.push s b)) [
      | more ↦ bump (offer O (O.push s b) p)
      | broken a ↦ record { verdict = broken a; taken = 1; stream = O.push s b }
      | whole h x ↦ record { verdict = whole h x; taken = 1; stream = O.push s b }
    ]

-- the stream that an offer leaves: a whole message is consumed (rule 9.1)
abbrev pub settled : {S : Type 0} → Streams S → Verdict → S → S
settled O more s = s
settled O (broken a) s = s
settled O (whole h x) s = O.next s
