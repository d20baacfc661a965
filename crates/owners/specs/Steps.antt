-- The steps of the calls about names, over memory: what each function leaves.
use Rattle.std.specs.Prelude.{cond, List, [], ◌∷◌, ◌++◌, ℕ, leb, length}
use Rattle.policy.specs.Names.{owns}
use Rattle.stream.specs.Tail.{Tail}
use Rattle.rules.specs.State.{peer, put_slot, with_names}
use Rattle.rules.specs.Calls.{Step, stays, own_new, released}
use Rattle.memory.specs.Encoding.{state_of}
use Rattle.slots.specs.Slots.{peer_at}

-- own's last test, and its change
unfoldable pub granted : List ℕ → ℕ → List ℕ → Step Tail ℕ
granted m i name =
    cond (leb 4 (length (peer_at m i).names)) (stays (state_of m) 34)
    (stays (put_slot (state_of m) i (peer (with_names (peer_at m i) ((peer_at m i).names ++ (name ∷ []))))) 0)

-- own's last two tests, and its change
unfoldable pub claimed : List ℕ → ℕ → List ℕ → Step Tail ℕ
claimed m i name = own_new (state_of m) i (peer_at m i) name

-- own's last three tests, and its change
unfoldable pub obtained : List ℕ → ℕ → List ℕ → Step Tail ℕ
obtained m i name = cond (owns (peer_at m i).names name) (stays (state_of m) 0) (own_new (state_of m) i (peer_at m i) name)

-- release's last test, and its change
unfoldable pub given_up : List ℕ → ℕ → List ℕ → Step Tail ℕ
given_up m i name =
    cond (owns (peer_at m i).names name)
    (stays (put_slot (state_of m) i (peer (with_names (peer_at m i) (released name (peer_at m i).names)))) 0)
    (stays (state_of m) 35)
