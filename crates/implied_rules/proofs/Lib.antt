mod ImpliedLaws
