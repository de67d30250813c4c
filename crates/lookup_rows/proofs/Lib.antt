mod BookLaws
