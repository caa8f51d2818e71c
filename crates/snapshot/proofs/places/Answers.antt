-- Each arm has the places of the order for its paged bank, computed: `places_are`.
use mathlib.Core.Path.{refl}
use native.Mathlib.Omega.{arith}
use Rattle.snapshot.specs.File.{banks_in_order, without, among, first_place}
use Rattle.snapshot.proofs.Leaves.{places_are, seven}
use Rattle.snapshot.proofs.places.Goals as goal

pub returns-in-Sinclair48K : goal.returns-in-Sinclair48K
unfolding banks_in_order without among first_place
returns-in-Sinclair48K c = rw c.in-Sinclair48K.is

pub returns-in-0 : goal.returns-in-0
unfolding without among first_place
returns-in-0 c = places_are _ _ 0 _ c.in-Sinclair128K.is c.in-0.is refl

pub returns-in-1 : goal.returns-in-1
unfolding without among first_place
returns-in-1 c = places_are _ _ 1 _ c.in-Sinclair128K.is c.in-1.is refl

pub returns-in-2 : goal.returns-in-2
unfolding without among first_place
returns-in-2 c = places_are _ _ 2 _ c.in-Sinclair128K.is c.in-2.is refl

pub returns-in-3 : goal.returns-in-3
unfolding without among first_place
returns-in-3 c = places_are _ _ 3 _ c.in-Sinclair128K.is c.in-3.is refl

pub returns-in-4 : goal.returns-in-4
unfolding without among first_place
returns-in-4 c = places_are _ _ 4 _ c.in-Sinclair128K.is c.in-4.is refl

pub returns-in-5 : goal.returns-in-5
unfolding without among first_place
returns-in-5 c = places_are _ _ 5 _ c.in-Sinclair128K.is c.in-5.is refl

pub returns-in-6 : goal.returns-in-6
unfolding without among first_place
returns-in-6 c = places_are _ _ 6 _ c.in-Sinclair128K.is c.in-6.is refl

pub returns-in_default : goal.returns-in_default
unfolding without among first_place
returns-in_default c = let r = c.in_default.in_default-own.rest in places_are _ _ 7 _ c.in-Sinclair128K.is (seven _ (omega arith) r.0.0.0.0.0.0.1 r.0.0.0.0.0.1 r.0.0.0.0.1 r.0.0.0.1 r.0.0.1 r.0.1 r.1) refl
