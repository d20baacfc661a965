-- A function's needs answered by one search: what takes n answers, one after the other, takes the tuple of them, whose parts `search` proves each by itself.

module _ {ℓ κ} {R : Type κ} where
  pub all2 : {A B : Type ℓ} → (A → B → R) → A × B → R
  all2 f p = f p.0 p.1

  pub all3 : {A B C : Type ℓ} → (A → B → C → R) → A × B × C → R
  all3 f p = f p.0 p.1 p.2

  pub all4 : {A B C D : Type ℓ} → (A → B → C → D → R) → A × B × C × D → R
  all4 f p = f p.0 p.1 p.2 p.3

  pub all5 : {A B C D E : Type ℓ} → (A → B → C → D → E → R) → A × B × C × D × E → R
  all5 f p = f p.0 p.1 p.2 p.3 p.4

  pub all6 : {A B C D E F : Type ℓ} → (A → B → C → D → E → F → R) → A × B × C × D × E × F → R
  all6 f p = f p.0 p.1 p.2 p.3 p.4 p.5

  pub all7 : {A B C D E F G : Type ℓ} → (A → B → C → D → E → F → G → R) → A × B × C × D × E × F × G → R
  all7 f p = f p.0 p.1 p.2 p.3 p.4 p.5 p.6

  pub all8 : {A B C D E F G H : Type ℓ} → (A → B → C → D → E → F → G → H → R) → A × B × C × D × E × F × G × H → R
  all8 f p = f p.0 p.1 p.2 p.3 p.4 p.5 p.6 p.7
